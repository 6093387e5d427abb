-- Document 01, "Conditions of acceptance": "Every public call's contract determines number, floats, record and every
-- destination byte by a definition; scratch is the sole free part." What that says of a contract; the calls' theorems
-- are in `proofs/Determined` of their crates.
use Rattle.std.specs.Prelude.{◌≡◌}

-- what an accepted call writes is determined: one old destination, one new one
abbrev pub WritesOne : {R D : Type 0} → (R → D → D → Type 0) → Type 0
WritesOne {R} {D} writes = (found : R) (old new new' : D) → writes found old new → writes found old new' → new ≡ new'

-- a contract over the scratch before and after, the new destination and the answer: two calls whose scratch is of one
-- size, whatever it holds, have the same answer and the same destination
abbrev pub Determines : {A D S N : Type 0} → (S → N) → (S → S → D → A → Type 0) → Type 0
Determines {A} {D} {S} size Contract =
    (scratch scratch' other other' : S) (new new' : D) (answer answer' : A) → size scratch ≡ size other
    → Contract scratch scratch' new answer → Contract other other' new' answer' → (answer ≡ answer') × (new ≡ new')
