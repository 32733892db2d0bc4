-- Document 02, K1: the condition of each of numbers 14 and 15.
use Rattle.std.specs.Prelude.{ℕ, ◌<◌, ◌≤◌, ◌≡◌, ◌⊎◌}
use Rattle.std.specs.Prelude.{Option, None}
use Rattle.refusals.specs.Refusal.{Refusal, refuse, count_too_large, no_verses}
use Rattle.mark.specs.Mark.{most_counted}

-- one of the counts is over 1,000,000
abbrev pub Over : ℕ → ℕ → ℕ → Type 0
Over errors warnings verses = (most_counted < errors) ⊎ ((most_counted < warnings) ⊎ (most_counted < verses))

-- none of them is
abbrev pub Few : ℕ → ℕ → ℕ → Type 0
Few errors warnings verses = (errors ≤ most_counted) × ((warnings ≤ most_counted) × (verses ≤ most_counted))

-- 14 if one of the counts is over 1,000,000; 15 if none is and there are no verses; neither otherwise. Of the three conditions just one holds
pub data GivenMark (errors warnings verses : ℕ) : Option Refusal → Type 0 where
  by14 : Over errors warnings verses → GivenMark errors warnings verses (refuse count_too_large 0)
  by15 : Few errors warnings verses → verses ≡ 0 → GivenMark errors warnings verses (refuse no_verses 0)
  by_none : Few errors warnings verses → 1 ≤ verses → GivenMark errors warnings verses None
