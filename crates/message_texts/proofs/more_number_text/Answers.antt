-- `message_texts::more_number_text` meets its contract.
use mathlib.Core.List.{◌++◌}
use lib.ListN.{drop}
use Rattle.text.specs.Literal.{ascii}
use Rattle.message_texts.specs.Texts.{number_texts, marker_texts, attribute_texts}
use Rattle.message_texts.specs.Filled.{joined, code_of}
use Rattle.message_texts.proofs.Choosing.{written_at, written-past, pieces}
use Rattle.message_texts.proofs.more_number_text.Goals as goal

pub returns-in-18 : goal.returns-in-18
unfolding number_texts code_of joined pieces ascii
returns-in-18 c = written_at (drop 5 number_texts ++ marker_texts ++ attribute_texts) c.in-18.is c.write_form.ensures

pub returns-in-19 : goal.returns-in-19
unfolding number_texts code_of joined pieces ascii
returns-in-19 c = written_at (drop 5 number_texts ++ marker_texts ++ attribute_texts) c.in-19.is c.write_form-in-19.ensures

pub returns-in-20 : goal.returns-in-20
unfolding number_texts code_of joined pieces ascii
returns-in-20 c = written_at (drop 5 number_texts ++ marker_texts ++ attribute_texts) c.in-20.is c.write_form-in-20.ensures

pub returns-in-34 : goal.returns-in-34
unfolding number_texts code_of joined pieces ascii
returns-in-34 c = written_at (drop 5 number_texts ++ marker_texts ++ attribute_texts) c.in-34.is c.write_form-in-34.ensures

pub returns-in-35 : goal.returns-in-35
unfolding number_texts code_of joined pieces ascii
returns-in-35 c = written_at (drop 5 number_texts ++ marker_texts ++ attribute_texts) c.in-35.is c.write_form-in-35.ensures

pub returns-in_default : goal.returns-in_default
unfolding number_texts
returns-in_default c = written-past _ (drop 5 number_texts) _ _ _ c.in_default.in_default-own.rest _ c.marker_text.ensures
