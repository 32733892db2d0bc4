-- `text::decode_at` meets its contract.
use Rattle.text.proofs.Decode.{decode-end}
use Rattle.text.proofs.decode_at.Goals as goal

pub returns-else-at-s : goal.returns-else-at-s
returns-else-at-s c = decode-end _ _ c.if-at-s.false
