-- `smear_read_pgm` and `smear_write_pgm`: document 02's reader and writer (K3) as C has them, a result and
-- out-parameters.
use Rattle.std.specs.Prelude.{List, ℕ, length}
use Rattle.image.specs.Call.{Gray8, number_of, FrontWrites, WithOuts, Outcome}
use Rattle.pgm.specs.Write.{write_decision}
use Rattle.pgm.specs.declared.PgmPicture.{PgmPicture}

-- the reader's out-parameters are the picture
abbrev pub outs : ℕ → ℕ → ℕ → PgmPicture
outs width height start = record { width = width; height = height; start = start }

abbrev pub picture_outs : PgmPicture → PgmPicture
picture_outs p = p

-- the writer's is the number of bytes
abbrev pub PgmWrittenC : Gray8 → List ℕ → List ℕ → ℕ → ℕ → ℕ → Type 0
PgmWrittenC src old new before after r =
    Outcome (write_decision src (length old)) number_of (WithOuts FrontWrites length) (old, before) (new, after)
    (tt {0}) (tt {0}) r
