-- `message_texts::marker_text` meets its contract.
use mathlib.Core.List.{◌++◌}
use lib.ListN.{take}
use Rattle.text.specs.Literal.{ascii}
use Rattle.message_texts.specs.Texts.{marker_texts, attribute_texts}
use Rattle.message_texts.specs.Filled.{joined, code_of}
use Rattle.message_texts.proofs.Choosing.{written_at, written-past, pieces}
use Rattle.message_texts.proofs.marker_text.Goals as goal

pub returns-in-13 : goal.returns-in-13
unfolding marker_texts code_of joined pieces ascii
returns-in-13 c = written_at (marker_texts ++ attribute_texts) c.in-13.is c.write_form.ensures

pub returns-in-14 : goal.returns-in-14
unfolding marker_texts code_of joined pieces ascii
returns-in-14 c = written_at (marker_texts ++ attribute_texts) c.in-14.is c.write_form-in-14.ensures

pub returns-in-16 : goal.returns-in-16
unfolding marker_texts code_of joined pieces ascii
returns-in-16 c = written_at (marker_texts ++ attribute_texts) c.in-16.is c.write_form-in-16.ensures

pub returns-in-21 : goal.returns-in-21
unfolding marker_texts code_of joined pieces ascii
returns-in-21 c = written_at (marker_texts ++ attribute_texts) c.in-21.is c.write_form-in-21.ensures

pub returns-in_default : goal.returns-in_default
unfolding marker_texts
returns-in_default c = written-past _ (take 4 marker_texts) _ _ _ c.in_default.in_default-own.rest _ c.more_marker_text.ensures
