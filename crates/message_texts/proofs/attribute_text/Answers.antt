-- `message_texts::attribute_text` meets its contract.
use Rattle.text.specs.Literal.{ascii}
use Rattle.message_texts.specs.Texts.{attribute_texts}
use Rattle.message_texts.specs.Filled.{joined, code_of}
use Rattle.message_texts.proofs.Choosing.{written_at, written-not, pieces}
use Rattle.message_texts.proofs.attribute_text.Goals as goal

pub returns-in-17 : goal.returns-in-17
unfolding attribute_texts code_of joined pieces ascii
returns-in-17 c = written_at attribute_texts c.in-17.is c.write_form.ensures

pub returns-in-22 : goal.returns-in-22
unfolding attribute_texts code_of joined pieces ascii
returns-in-22 c = written_at attribute_texts c.in-22.is c.write_form-in-22.ensures

pub returns-in-32 : goal.returns-in-32
unfolding attribute_texts code_of joined pieces ascii
returns-in-32 c = written_at attribute_texts c.in-32.is c.write_form-in-32.ensures

pub returns-in_default : goal.returns-in_default
unfolding attribute_texts
returns-in_default c = written-not _ attribute_texts _ _ _ c.in_default.in_default-own.rest _
