-- `trial_replay::documents` meets its contract: no count passes that of the documents, or of the findings that they record.
use Rattle.std.proofs.Common.{◌*◌, ◌≤◌}
use Rattle.trial_replay.proofs.documents.Given as goal

abbrev pub invariant-loop-k : goal.invariant-loop-k
invariant-loop-k g l = (l.totals.documents ≤ l.k-counter) × (l.totals.findings ≤ 4294967295 * l.k-counter) × (l.totals.differences ≤ l.k-counter)
