-- The state of the loop of `fill`: the swings so far stand at the front of the records, and what is left to be stored
-- is what the scan has left.
use mathlib.Core.Path.{◌≡◌, refl, sym, ◌∙◌, ap, subst}
use mathlib.Core.List.{List, [], ◌∷◌, ◌++◌, append_assoc, append-nil}
use Prim.Native.Nat.{ℕ, ◌+◌, ◌≤◌, ◌<◌, zero-le}
use native.Mathlib.Omega.{arith}
use lib.ListN.{length, take, drop, get_or, set, length-set, length-append}
use Rattle.image.specs.Call.{Gray8}
use Rattle.swings.specs.declared.Swing.{Swing}
use Rattle.swings.specs.declared.scan.ScanPlan.{ScanPlan}
use Rattle.swings.specs.declared.scan.Scan.{Scan}
use Rattle.swings.specs.declared.scan.Span.{Span}
use Rattle.swings.specs.Swings.{larger, strongest}
use Rattle.swings.specs.Scan.{Open, rest, begun, widened_by, span_from, span_of, Bytes, Goes, Filled}
use Rattle.swings.proofs.Strongest.{strongest_snoc}

-- one width more: the list so far has its span, and `widened` takes in the next
span_snoc : (span : Span) (l : List Swing) (s : Swing)
    → span_from span (l ++ (s ∷ [])) ≡ widened_by (span_from span l) s.width
span_snoc span [] s = refl
span_snoc span (t ∷ l) s = span_snoc (widened_by span t.width) l s

-- ---- one element more at the front of a list
module _ {X : Type 0} where
  take_more : (p l : List X) (x : X) → length p < length l → take (length p) l ≡ p
      → take (length (p ++ (x ∷ []))) (set l (length p) x) ≡ p ++ (x ∷ [])
  take_more p [] x h e = absurd (omega arith)
  take_more [] (y ∷ l) x h e = refl
  take_more (z ∷ p) (y ∷ l) x h e = (λ i. get_or (e i) 0 z ∷ take_more p l x (omega arith) (ap (drop 1) e) i)

module _ (src : Gray8) (c : ScanPlan) (ys : List Swing) where
  abbrev all : List Swing
  all = rest src c begun

  -- `past` are the swings so far
  pub record At (s : Scan) (list : List Swing) : Type 0 where
    pub past : List Swing
    pub whole : past ++ rest src c s ≡ all
    pub counted : s.count ≡ length past
    pub top : s.strongest ≡ strongest past
    pub span : s.span ≡ span_of past
    pub opened : Open src c s.place
    pub same : length list ≡ length ys
    pub stored : take (length past) list ≡ past

  pub starts : At begun ys
  starts = record {
    past = [];
    whole = refl;
    counted = refl;
    top = refl;
    span = refl;
    opened = record {
      within = zero-le;
      shut = λ _. (refl, refl, refl);
      start_is = λ h. absurd (omega arith);
      len_is = λ h. absurd (omega arith);
    };
    same = refl;
    stored = refl;
  }

  module _ {s : Scan} {list : List Swing} (t : At s list) where
    sizes : length t.past + length (rest src c s) ≡ length all
    sizes = sym (length-append t.past (rest src c s)) ∙ ap length t.whole

    pub few : length all ≤ length ys → s.count ≤ length list
    few h = omega (arith, sizes, t.counted, t.same)

    pub filled : rest src c s ≡ [] → Bytes src.bytes → Filled src.bytes all list s
    filled off are =
        record {
          counted = t.counted ∙ ap length past_is;
          listed = subst (λ (l : List Swing). take (length l) list ≡ l) past_is t.stored;
          top = t.top ∙ ap strongest past_is;
          span = t.span ∙ ap span_of past_is;
          are = are;
        }
      where
        past_is : t.past ≡ all
        past_is = sym (append-nil t.past) ∙ ap (λ (l : List Swing). t.past ++ l) (sym off) ∙ t.whole

    module _ (enough : length all ≤ length ys) {swing : Swing} {next : Scan} (g : Goes src c s swing next) where
      pub more : s.count < length list
      more = omega (arith, sizes, ap length g.list, t.counted, t.same)

      pub after : At next (set list s.count swing)
      after = record {
        past = t.past ++ (swing ∷ []);
        whole = append_assoc t.past (swing ∷ []) (rest src c next)
            ∙ ap (λ (l : List Swing). t.past ++ l) (sym g.list) ∙ t.whole;
        counted = omega (arith, g.count, t.counted, length-append t.past (swing ∷ []));
        top = g.top ∙ ap (λ z. larger z swing.swing) t.top ∙ sym (strongest_snoc t.past swing);
        span = g.span ∙ ap (λ z. widened_by z swing.width) t.span ∙ sym (span_snoc (span_of []) t.past swing);
        opened = g.opened;
        same = length-set list s.count swing ∙ t.same;
        stored = ap (λ (k : ℕ). take (length (t.past ++ (swing ∷ []))) (set list k swing)) t.counted
            ∙ take_more t.past list swing (omega (arith, more, t.counted)) t.stored;
      }

      pub less : length (rest src c next) < length (rest src c s)
      less = omega (arith, ap length g.list)
