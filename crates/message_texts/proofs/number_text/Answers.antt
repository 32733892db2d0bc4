-- `message_texts::number_text` meets its contract.
use mathlib.Core.List.{◌++◌}
use lib.ListN.{take}
use Rattle.text.specs.Literal.{ascii}
use Rattle.message_texts.specs.Texts.{number_texts, marker_texts, attribute_texts}
use Rattle.message_texts.specs.Filled.{joined, code_of}
use Rattle.message_texts.proofs.Choosing.{written_at, written-past, pieces}
use Rattle.message_texts.proofs.number_text.Goals as goal

pub returns-in-9 : goal.returns-in-9
unfolding number_texts code_of joined pieces ascii
returns-in-9 c = written_at (number_texts ++ marker_texts ++ attribute_texts) c.in-9.is c.write_form.ensures

pub returns-in-10 : goal.returns-in-10
unfolding number_texts code_of joined pieces ascii
returns-in-10 c = written_at (number_texts ++ marker_texts ++ attribute_texts) c.in-10.is c.write_form-in-10.ensures

pub returns-in-11 : goal.returns-in-11
unfolding number_texts code_of joined pieces ascii
returns-in-11 c = written_at (number_texts ++ marker_texts ++ attribute_texts) c.in-11.is c.write_form-in-11.ensures

pub returns-in-12 : goal.returns-in-12
unfolding number_texts code_of joined pieces ascii
returns-in-12 c = written_at (number_texts ++ marker_texts ++ attribute_texts) c.in-12.is c.write_form-in-12.ensures

pub returns-in-15 : goal.returns-in-15
unfolding number_texts code_of joined pieces ascii
returns-in-15 c = written_at (number_texts ++ marker_texts ++ attribute_texts) c.in-15.is c.write_form-in-15.ensures

pub returns-in_default : goal.returns-in_default
unfolding number_texts
returns-in_default c = written-past _ (take 5 number_texts) _ _ _ c.in_default.in_default-own.rest _ c.more_number_text.ensures
