-- `message_texts::more_marker_text` meets its contract.
use mathlib.Core.List.{◌++◌}
use lib.ListN.{drop}
use Rattle.text.specs.Literal.{ascii}
use Rattle.message_texts.specs.Texts.{marker_texts, attribute_texts}
use Rattle.message_texts.specs.Filled.{joined, code_of}
use Rattle.message_texts.proofs.Choosing.{written_at, written-past, pieces}
use Rattle.message_texts.proofs.more_marker_text.Goals as goal

pub returns-in-23 : goal.returns-in-23
unfolding marker_texts code_of joined pieces ascii
returns-in-23 c = written_at (drop 4 marker_texts ++ attribute_texts) c.in-23.is c.write_form.ensures

pub returns-in-24 : goal.returns-in-24
unfolding marker_texts code_of joined pieces ascii
returns-in-24 c = written_at (drop 4 marker_texts ++ attribute_texts) c.in-24.is c.write_form-in-24.ensures

pub returns-in-25 : goal.returns-in-25
unfolding marker_texts code_of joined pieces ascii
returns-in-25 c = written_at (drop 4 marker_texts ++ attribute_texts) c.in-25.is c.write_form-in-25.ensures

pub returns-in-27 : goal.returns-in-27
unfolding marker_texts code_of joined pieces ascii
returns-in-27 c = written_at (drop 4 marker_texts ++ attribute_texts) c.in-27.is c.write_form-in-27.ensures

pub returns-in-33 : goal.returns-in-33
unfolding marker_texts code_of joined pieces ascii
returns-in-33 c = written_at (drop 4 marker_texts ++ attribute_texts) c.in-33.is c.write_form-in-33.ensures

pub returns-in_default : goal.returns-in_default
unfolding marker_texts
returns-in_default c = written-past _ (drop 4 marker_texts) _ _ _ c.in_default.in_default-own.rest _ c.attribute_text.ensures
