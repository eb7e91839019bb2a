-- The laws of `specs/Laws.antt`. Assumes nothing.
use mathlib.Core.Path.{◌≡◌, refl, ap, ◌∙◌}
use mathlib.Core.Bool.{Bool, true, false, cond}
use Prim.Native.Nat.{ℕ, ◌+◌, ◌-◌, ◌≤◌, ◌<◌, min}
use native.Mathlib.Omega.{arith}
use lib.Dec.{ltb, eqb}
use Rattle.std.proofs.lemmas.Bool.Decides.{nat_tests}
use Rattle.std.proofs.lemmas.Bool.{lt-ltb}
use Rattle.std.specs.Prelude.{Option, None, Some}
use Rattle.std.proofs.Common.{lit≤}
use native.Mathlib.Nat.{le_trans}
use lib.Ieee.{binary32}
use Rattle.rounding.proofs.Exact.{whole_exact}
use Rattle.ramps.specs.declared.Ramp.{Ramp}
use Rattle.ramps.specs.Ramps.{numerator, level, level_by, ramped, counted, last_count, stop_of, falling, smaller}
use Rattle.ramps.specs.Laws.{RampLaws}

-- ---- by the tests of one number
onset_by : (length j : ℕ) (none rises : Bool) → eqb length 0 ≡ none → ltb j length ≡ rises
    → level_by length (cond none None (smaller (cond rises (Some j) None) None)) ≡ min length j
onset_by length j true rises e r = grind (arith, nat_tests)
onset_by length j false true e r = grind (arith, nat_tests)
onset_by length j false false e r = grind (arith, nat_tests)

stop_by : (length w j : ℕ) (none rises above falls : Bool) → eqb length 0 ≡ none → ltb j length ≡ rises → ltb w j ≡ above → ltb (w - j) length ≡ falls
    → level_by length (cond none None (smaller (cond rises (Some j) None) (cond above (Some 0) (cond falls (Some (w - j)) None)))) ≡ min length (min j (w - j))
stop_by length w j true rises above falls e r a f = grind (arith, nat_tests)
stop_by length w j false true true falls e r a f = grind (arith, nat_tests)
stop_by length w j false true false true e r a f = grind (arith, nat_tests)
stop_by length w j false true false false e r a f = grind (arith, nat_tests)
stop_by length w j false false true falls e r a f = grind (arith, nat_tests)
stop_by length w j false false false true e r a f = grind (arith, nat_tests)
stop_by length w j false false false false e r a f = grind (arith, nat_tests)

pub onset : (length j : ℕ) → level length None j ≡ min length j
unfolding numerator
onset length j = onset_by length j (eqb length 0) (ltb j length) refl refl

pub stop : (length w j : ℕ) → level length (Some w) j ≡ min length (min j (w - j))
unfolding numerator
stop length w j = stop_by length w j (eqb length 0) (ltb j length) (ltb w j) (ltb (w - j) length) refl refl refl refl

-- ---- a numerator is below the length
below_by : (length j k : ℕ) (fall : Option ℕ) (none rises : Bool) → eqb length 0 ≡ none → ltb j length ≡ rises
    → ((m : ℕ) → fall ≡ Some m → m < length)
    → cond none None (smaller (cond rises (Some j) None) fall) ≡ Some k → k < length
below_by length j k fall true rises e r f h = absurd cc
below_by length j k None false true e r f h = let same : j ≡ k = cc in grind (arith, nat_tests)
below_by length j k (Some m) false true e r f h = let same : min j m ≡ k = cc in grind (arith, nat_tests)
below_by length j k None false false e r f h = absurd cc
below_by length j k (Some m) false false e r f h = f k h

none_some : {k : ℕ} → None ≡ Some k → ⊥
none_some e = cc

falls_by : (length w j m : ℕ) (above falls : Bool) → 0 < length → ltb (w - j) length ≡ falls
    → cond above (Some 0) (cond falls (Some (w - j)) None) ≡ Some m → m < length
falls_by length w j m true falls some f h = let same : 0 ≡ m = cc in omega arith
falls_by length w j m false true some f h = let same : w - j ≡ m = cc in grind (arith, nat_tests)
falls_by length w j m false false some f h = absurd cc

pub below : (length : ℕ) (stop : Option ℕ) (j k : ℕ) → numerator length stop j ≡ Some k → k < length
unfolding numerator
below length None j k h = below_by length j k None (eqb length 0) (ltb j length) refl refl (λ m e. absurd cc) h
below length (Some w) j k h = go (eqb length 0) refl
  where
    go : (none : Bool) → eqb length 0 ≡ none → k < length
    go true e = absurd (none_some (rw e at h))
    go false e =
        let some : 0 < length = grind (arith, nat_tests) in
        below_by length j k (falling length (Some w) j) false (ltb j length) e refl
        (λ m f. falls_by length w j m (ltb w j) (ltb (w - j) length) some refl f) (rw e at h)

-- ---- so a numerator is told by the level
some_at : (length k : ℕ) (x : Option ℕ) → level_by length x ≡ k → k < length → x ≡ Some k
some_at length k None e b = absurd (omega arith)
some_at length k (Some m) e b = ap Some e

none_at : (length : ℕ) (x : Option ℕ) → ((k : ℕ) → x ≡ Some k → k < length) → level_by length x ≡ length → x ≡ None
none_at length None b e = refl
none_at length (Some m) b e = let l : m < length = b m refl in absurd (omega arith)

pub is_some : (length : ℕ) (stop : Option ℕ) (j k : ℕ) → level length stop j ≡ k → k < length → numerator length stop j ≡ Some k
is_some length stop j k e b = some_at length k (numerator length stop j) e b

pub is_none : (length : ℕ) (stop : Option ℕ) (j : ℕ) → level length stop j ≡ length → numerator length stop j ≡ None
is_none length stop j e = none_at length (numerator length stop j) (below length stop j) e

first : (length : ℕ) (stop : Option ℕ) → 0 < length → numerator length stop 0 ≡ Some 0
first length None h = is_some length None 0 0 (onset length 0 ∙ omega arith) h
first length (Some w) h = is_some length (Some w) 0 0 (stop length w 0 ∙ omega arith) h

up : (length : ℕ) (w : Option ℕ) (j : ℕ) → level length w (j + 1) ≤ level length w j + 1
up length None j = rw (onset length (j + 1), onset length j) (omega arith)
up length (Some w) j = rw (stop length w (j + 1), stop length w j) (omega arith)

down : (length : ℕ) (w : Option ℕ) (j : ℕ) → level length w j ≤ level length w (j + 1) + 1
down length None j = rw (onset length (j + 1), onset length j) (omega arith)
down length (Some w) j = rw (stop length w (j + 1), stop length w j) (omega arith)

-- ---- the samples of a block
nothing : (stop : Option ℕ) (j : ℕ) → numerator 0 stop j ≡ None
unfolding numerator
nothing stop j = refl

either : (b : Bool) (x : ℕ) → cond b x x ≡ x
either true x = refl
either false x = refl

none : (r : Ramp) (uncounted i bits : ℕ) → r.length ≡ 0 → ramped r uncounted i bits ≡ bits
unfolding ramped
none r uncounted i bits e =
    rw (e, nothing (stop_of r) (min last_count (r.count + (i - uncounted)))) (either (ltb i uncounted) bits)

before : (r : Ramp) (uncounted i bits : ℕ) → i < uncounted → ramped r uncounted i bits ≡ bits
unfolding ramped
before r uncounted i bits b = rw (lt-ltb i uncounted b) refl

idle : (n : ℕ) (r : Ramp) → counted n r n ≡ r
unfolding counted
idle n r = let no : ltb n n ≡ false = grind (arith, nat_tests) in rw no refl

pub ramp_laws_lem : RampLaws
ramp_laws_lem = record {
  none = none;
  before = before;
  idle = idle;
  onset = onset;
  stop = stop;
  below = below;
  first = first;
  last = λ length w j h l. is_some length (Some w) j 0 (stop length w j ∙ omega arith) h;
  up = up;
  down = down;
  risen = λ length j h. is_none length None j (onset length j ∙ omega arith);
  between = λ length w j h l. is_none length (Some w) j (stop length w j ∙ omega arith);
  exact = λ k h. whole_exact binary32 k (le_trans h (lit≤ tt));
}
