-- What is read has the form: its parts are found in the bytes.
use Prim.Native.Nat.{ℕ, ◌≤◌}
use native.Mathlib.Omega.{arith}
use mathlib.Core.Bool.{Bool, true, false, and-eq-true_iff}
use mathlib.Core.List.{List, [], ◌∷◌, ◌++◌, append_assoc}
use mathlib.Core.Path.{◌≡◌, refl, sym, ap, ap₂, subst, ◌∙◌}
use borrow.Author.Tests.{eqb-true}
use lib.Dec.{eqb}
use lib.ListN.{length, drop, length-append}
use Rattle.std.proofs.Common.{Some}
use lib.Seq.{append_snoc}
use Rattle.numbers.proofs.Test.{by_test}
use Rattle.image.specs.Call.{accepts, and_then}
use Rattle.image.proofs.Call.{accepts_not_refuses, then_accepts}
use Rattle.pgm.specs.Form.{is_end, is_white, is_digit, Each, Gap, blank, comment, gap_bytes, gaps_bytes, GapsFormed}
use Rattle.pgm.specs.Form.{value_of, Field, field_bytes, FieldFormed, field_value, Header, header_bytes, Formed}
use Rattle.pgm.specs.Read.{behind_gaps, digits_of, behind_digits, Read, read_field, HeaderRead}
use Rattle.pgm.specs.Read.{is_marked, read_last, read_header}
use Rattle.pgm.proofs.Bytes.{white_no_hash, hash_no_end}
use Rattle.pgm.proofs.Fields.{digits_all, no_gap, no_digit, a_field}
use Rattle.pgm.specs.Held.{HeldIf, HeldHeader}
use Rattle.pgm.specs.declared.header.Header as Held
use Rattle.pgm.proofs.Headers.{marked_long, held_some}

-- ---- gaps

record Gaps (xs rest : List ℕ) : Type 0 where
  gaps : List Gap
  formed : GapsFormed gaps
  bytes : xs ≡ gaps_bytes gaps ++ rest

-- from within a comment
record Within (xs rest : List ℕ) : Type 0 where
  text : List ℕ
  end : ℕ
  inner : Each is_end false text
  ends : is_end end ≡ true
  behind : List ℕ
  gaps : Gaps behind rest
  bytes : xs ≡ text ++ (end ∷ behind)

abbrev Found : Bool → List ℕ → List ℕ → Type 0
Found true xs rest = Within xs rest
Found false xs rest = Gaps xs rest

gaps_found : (within : Bool) (xs : List ℕ) (d : ℕ) (ds : List ℕ) → behind_gaps within xs ≡ d ∷ ds
    → Found within xs (d ∷ ds)
unfolding behind_gaps
gaps_found within [] d ds e = let z : ◌≡◌ {A = ℕ} 0 1 = cc in absurd (omega arith)
gaps_found true (b ∷ bs) d ds e =
    by_test (is_end b)
    (λ t.
    record {
      text = [];
      end = b;
      inner = tt;
      ends = t;
      behind = bs;
      gaps = gaps_found false bs d ds (rw t at e);
      bytes = refl;
    })
    (λ t.
    let k = gaps_found true bs d ds (rw t at e) in
    record {
      text = b ∷ k.text;
      end = k.end;
      inner = (t, k.inner);
      ends = k.ends;
      behind = k.behind;
      gaps = k.gaps;
      bytes = ap (◌∷◌ b) k.bytes;
    })
gaps_found false (b ∷ bs) d ds e =
    by_test (is_white b)
    (λ t.
    let k = gaps_found false bs d ds (rw (t, white_no_hash b t) at e) in
    record { gaps = blank b ∷ k.gaps; formed = (t, k.formed); bytes = ap (◌∷◌ b) k.bytes })
    (λ t.
    by_test (eqb b 35)
    (λ u.
    let k = gaps_found true bs d ds (rw (t, u, hash_no_end b u) at e) in
    let g = comment k.text k.end in
    let rest = gaps_bytes k.gaps.gaps ++ (d ∷ ds) in
    record {
      gaps = g ∷ k.gaps.gaps;
      formed = ((k.inner, k.ends), k.gaps.formed);
      bytes = ap₂ ◌∷◌ (eqb-true b 35 u)
          (k.bytes
          ∙ ap (λ (zs : List ℕ). k.text ++ (k.end ∷ zs)) k.gaps.bytes
          ∙ sym (append_snoc k.text k.end rest))
          ∙ sym (append_assoc (gap_bytes g) (gaps_bytes k.gaps.gaps) (d ∷ ds));
    })
    (λ u. record { gaps = []; formed = tt; bytes = rw (t, u) at e }))

-- ---- digits

digits_each : (xs : List ℕ) → Each is_digit true (digits_of xs)
unfolding digits_of
digits_each [] = tt
digits_each (b ∷ bs) =
    by_test (is_digit b) (λ t. rw t (t, digits_each bs)) (λ t. rw t tt)

-- ---- a field

pub record FieldFound (xs : List ℕ) (r : Read) : Type 0 where
  pub field : Field
  pub formed : FieldFormed field
  pub bytes : xs ≡ field_bytes field ++ r.rest
  pub value : r.value ≡ field_value field

-- gaps, a digit and more
together : (xs rest ds : List ℕ) (d : ℕ) (gaps : List Gap) → GapsFormed gaps → (length (d ∷ ds ++ rest) ≡ length xs → ⊥)
    → is_digit d ≡ true → Each is_digit true ds → xs ≡ gaps_bytes gaps ++ (d ∷ ds ++ rest)
    → FieldFound xs (record { value = value_of (d ∷ ds); rest = rest })
together xs rest ds d [] formed moved t each e = absurd (moved (ap length (sym e)))
together xs rest ds d (g ∷ gs) formed moved t each e =
    record {
      field = record { gap = g; gaps = gs; digit = d; digits = ds };
      formed = record { gap = formed.0; gaps = formed.1; digit = t; digits = each };
      bytes = e ∙ sym (append_assoc (gap_bytes g ++ gaps_bytes gs) (d ∷ ds) rest);
      value = refl;
    }

of_digits : (xs zs : List ℕ) → behind_gaps false xs ≡ zs → (length zs ≡ length xs → ⊥)
    → (length (digits_of zs) ≡ 0 → ⊥) → FieldFound xs (record { value = value_of (digits_of zs); rest = behind_digits zs })
unfolding digits_of behind_digits
of_digits xs [] e moved some = absurd (some refl)
of_digits xs (d ∷ ds) e moved some =
    by_test (is_digit d)
    (λ t.
    let g = gaps_found false xs d ds e in
    let all = ap (◌∷◌ d) (sym (digits_all ds)) in
    rw t
    (together xs (behind_digits ds) (digits_of ds) d g.gaps g.formed (λ k. moved (ap length all ∙ k)) t
    (digits_each ds) (g.bytes ∙ ap (◌++◌ (gaps_bytes g.gaps)) all)))
    (λ t. absurd (some (rw t refl)))

module _ (xs : List ℕ) (r : Read) (e : read_field xs ≡ accepts r) where
  abbrev ys : List ℕ
  ys = behind_gaps false xs

  moved : length ys ≡ length xs → ⊥
  moved k = accepts_not_refuses (sym e ∙ no_gap xs k)

  some : length (digits_of ys) ≡ 0 → ⊥
  some k = accepts_not_refuses (sym e ∙ no_digit xs moved k)

  pub field_found : FieldFound xs r
  field_found =
      let same = sym (a_field xs moved some) ∙ e in
      let is : ◌≡◌ {A = Read} (record { value = value_of (digits_of ys); rest = behind_digits ys }) r = cc in
      subst (FieldFound xs) is (of_digits xs ys refl moved some)

-- ---- a header

pub record HeaderFound (file : List ℕ) (r : HeaderRead) : Type 0 where
  pub header : Header
  pub formed : Formed file header r.pixels
  pub width : r.width ≡ field_value header.width
  pub height : r.height ≡ field_value header.height
  pub maximum : r.maximum ≡ field_value header.maximum

-- `P5`
marked_bytes : (file : List ℕ) → is_marked file ≡ true → file ≡ 80 ∷ 53 ∷ drop 2 file
marked_bytes [] e = absurd (omega (arith, marked_long [] e))
marked_bytes (a ∷ []) e = absurd (omega (arith, marked_long (a ∷ []) e))
marked_bytes (a ∷ (b ∷ bs)) e =
    let k = (and-eq-true_iff (eqb a 80) (eqb b 53)).0 e in
    rw (eqb-true a 80 k.0, eqb-true b 53 k.1) refl

-- the white byte behind the maximum
record LastFound (w h m : ℕ) (xs : List ℕ) (r : HeaderRead) : Type 0 where
  last : ℕ
  white : is_white last ≡ true
  bytes : xs ≡ last ∷ r.pixels
  width : r.width ≡ w
  height : r.height ≡ h
  maximum : r.maximum ≡ m

last_found : (w h m : ℕ) (xs : List ℕ) (r : HeaderRead) → read_last w h m xs ≡ accepts r → LastFound w h m xs r
last_found w h m [] r e = absurd (accepts_not_refuses (sym e))
last_found w h m (b ∷ bs) r e =
    by_test (is_white b)
    (λ t.
    let same : read_last w h m (b ∷ bs) ≡ accepts (record { width = w; height = h; maximum = m; pixels = bs }) = rw t in
    let is : ◌≡◌ {A = HeaderRead} (record { width = w; height = h; maximum = m; pixels = bs }) r = cc in
    subst (LastFound w h m (b ∷ bs)) is
    (record { last = b; white = t; bytes = refl; width = refl; height = refl; maximum = refl }))
    (λ t. absurd (accepts_not_refuses (sym (rw t at e))))

joined : (w h m : List ℕ) (last : ℕ) (pixels : List ℕ)
    → w ++ (h ++ (m ++ (last ∷ pixels))) ≡ w ++ h ++ m ++ (last ∷ []) ++ pixels
joined w h m last pixels =
    sym
    (append_assoc (w ++ h ++ m) (last ∷ []) pixels
    ∙ append_assoc (w ++ h) m (last ∷ pixels)
    ∙ append_assoc w h (m ++ (last ∷ pixels)))

pub header_found : (file : List ℕ) (r : HeaderRead) → read_header file ≡ accepts r → HeaderFound file r
unfolding read_header
header_found file r e =
    by_test (is_marked file) (λ t. fields t (rw t at e)) (λ t. absurd (accepts_not_refuses (sym (rw t at e))))
  where
    fields : is_marked file ≡ true
        → and_then (read_field (drop 2 file)) (λ w. and_then (read_field w.rest) (λ h. and_then (read_field h.rest)
        (λ m. read_last w.value h.value m.value m.rest))) ≡ accepts r
        → HeaderFound file r
    fields t k =
        let w = then_accepts (read_field (drop 2 file)) _ k in
        let h = then_accepts (read_field w.0.rest) _ w.1.1 in
        let m = then_accepts (read_field h.0.rest) _ h.1.1 in
        let l = last_found _ _ _ m.0.rest r m.1.1 in
        let fw = field_found (drop 2 file) w.0 w.1.0 in
        let fh = field_found w.0.rest h.0 h.1.0 in
        let fm = field_found h.0.rest m.0 m.1.0 in
        record {
          header = record { width = fw.field; height = fh.field; maximum = fm.field; last = l.last };
          formed = record {
            width = fw.formed;
            height = fh.formed;
            maximum = fm.formed;
            last = l.white;
            bytes =
                marked_bytes file t
                ∙ ap (λ (zs : List ℕ). 80 ∷ 53 ∷ zs)
                (fw.bytes
                ∙ ap (◌++◌ (field_bytes fw.field))
                (fh.bytes ∙ ap (◌++◌ (field_bytes fh.field))
                (fm.bytes ∙ ap (◌++◌ (field_bytes fm.field)) l.bytes))
                ∙ joined (field_bytes fw.field) (field_bytes fh.field) (field_bytes fm.field) l.last
                r.pixels);
          };
          width = l.width ∙ fw.value;
          height = l.height ∙ fh.value;
          maximum = l.maximum ∙ fm.value;
        }

-- the pixels end the file
pub pixels_within : (file : List ℕ) (h : Held.Header) → HeldIf HeldHeader (read_header file) (Some h)
    → length h.pixels.now ≤ length file
pixels_within file h held =
    let k = held_some HeldHeader (read_header file) held in
    let f = header_found file k.0 k.1.0 in
    omega (arith, ap length f.formed.bytes, length-append (header_bytes f.header) k.0.pixels, ap length k.1.1.pixels)
