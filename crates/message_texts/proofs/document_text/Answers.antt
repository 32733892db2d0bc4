-- `message_texts::document_text` meets its contract.
use Rattle.text.specs.Literal.{ascii}
use Rattle.message_texts.specs.Texts.{document_texts}
use Rattle.message_texts.specs.Filled.{joined, all_texts, code_of}
use Rattle.message_texts.proofs.Choosing.{written_at, written-past, pieces}
use Rattle.message_texts.proofs.document_text.Goals as goal

pub returns-in-4 : goal.returns-in-4
unfolding all_texts document_texts code_of joined pieces ascii
returns-in-4 c = written_at all_texts c.in-4.is c.write_form.ensures

pub returns-in-5 : goal.returns-in-5
unfolding all_texts document_texts code_of joined pieces ascii
returns-in-5 c = written_at all_texts c.in-5.is c.write_form-in-5.ensures

pub returns-in-6 : goal.returns-in-6
unfolding all_texts document_texts code_of joined pieces ascii
returns-in-6 c = written_at all_texts c.in-6.is c.write_form-in-6.ensures

pub returns-in-7 : goal.returns-in-7
unfolding all_texts document_texts code_of joined pieces ascii
returns-in-7 c = written_at all_texts c.in-7.is c.write_form-in-7.ensures

pub returns-in-8 : goal.returns-in-8
unfolding all_texts document_texts code_of joined pieces ascii
returns-in-8 c = written_at all_texts c.in-8.is c.write_form-in-8.ensures

pub returns-in_default : goal.returns-in_default
unfolding all_texts document_texts
returns-in_default c = written-past _ document_texts _ _ _ c.in_default.in_default-own.rest _ c.number_text.ensures
