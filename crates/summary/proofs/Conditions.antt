-- A file is given 13 in its condition and otherwise never.
use Prim.Native.Nat.{ℕ}
use mathlib.Core.List.{List}
use mathlib.Core.Logic.{inl, inr}
use mathlib.Core.Path.{◌≡◌, refl}
use Rattle.image.specs.Conditions.{FirstMatch, Exactly}
use Rattle.image.proofs.Conditions.{exactly}
use Rattle.summary.specs.Conditions.{summary_number, summary_conditions}
use Rattle.summary.specs.File.{summarized}
use Rattle.summary.proofs.Faults.{given_none, refused_first}
use Rattle.std.specs.Prelude.{Result, Ok, Err}
use Rattle.summary.specs.declared.FaultyRecord.{FaultyRecord}
use Rattle.summary.specs.declared.RecordSummary.{RecordSummary}

module _ (xs : List ℕ) where
  answer-matches : (z : Result RecordSummary FaultyRecord) → summarized xs ≡ z → FirstMatch (summary_conditions xs) (summary_number z)
  answer-matches (Ok s) e = record { matches = inr (λ f. given_none xs s e f.0 f.1, refl) }
  answer-matches (Err f) e = record { matches = inl ((f.index, (refused_first xs f e).1.fault), refl) }

  pub summary_matches : FirstMatch (summary_conditions xs) (summary_number (summarized xs))
  summary_matches = answer-matches (summarized xs) refl

  pub summary_exactly : Exactly (summary_conditions xs) (summary_number (summarized xs))
  summary_exactly = exactly summary_matches
