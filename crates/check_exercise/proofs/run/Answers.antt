-- `check_exercise::run` meets its contract: what the check accepts can be listed.
use Rattle.std.proofs.Common.{length, sym, ap, ◌∙◌}
use Rattle.refusals.specs.Reasons.{refusal_in}
use Rattle.text.proofs.AnyOver.{any-parts}
use Rattle.listing.specs.Listing.{largest_file}
use Rattle.definition.specs.Outcome.{repeated, no_start}
use Rattle.validate.specs.Entry.{answer_of, lent}
use Rattle.messages.proofs.Nine.{passed, is-accepted}
use Rattle.listing.proofs.Places.{source-well-formed}
use Rattle.check_exercise.proofs.Progress.{held-few}
use Rattle.check_exercise.proofs.run.Goals as goal

pub write_findings-requires-clause-accepted : goal.write_findings-requires-clause-accepted
write_findings-requires-clause-accepted g c =
    is-accepted _ _ _ (passed _ _ _ (sym (ap refusal_in c.in-Ok.is) ∙ c.check_input.ensures.number))

pub write_findings-requires-clause-short : goal.write_findings-requires-clause-short
write_findings-requires-clause-short g c =
    let a = c.args.files in
    (any-parts largest_file (length a.table.now) (length a.source.now) (length a.tape.now) a.small).1.0

pub write_findings-requires-clause-few : goal.write_findings-requires-clause-few
write_findings-requires-clause-few g c =
    let a = c.args.files in
    held-few (lent a.table.now a.source.now a.tape.now c.chapters_seen-seen.result (repeated no_start 4096) c.findings_list-list.result) (answer_of c.checked-answer.result) c.checked-answer.new.list _ c.checked-answer.ensures.answer c.checked-answer.auto.list c.held-held.ensures

pub write_findings-requires-clause-utf8 : goal.write_findings-requires-clause-utf8
write_findings-requires-clause-utf8 g c =
    source-well-formed _ _ _ (passed _ _ _ (sym (ap refusal_in c.in-Ok.is) ∙ c.check_input.ensures.number))
