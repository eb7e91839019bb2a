-- The tolerances as a record: its making, its defaults, and the tests that receive it (docs/REFERENCE.md, 'Near tests and tolerances').
use Rattle.std.specs.Prelude.{Bool, not, ◌||◌, cond, Float, Result, Ok, Err}
use Rattle.std.specs.Float.Ieee.{lt}
use Rattle.std.specs.Float.Ieee.Scale.{finite}
use Rattle.seconds.specs.Seconds.{float_zero, one}
use Rattle.rounding.specs.Near.{near_tolerance, rate_tolerance, near, near_zero, float_eq}
use Rattle.buffer.specs.declared.refusals.Refusal.{Refusal}
use Rattle.buffer.specs.declared.refusals.Refusal.TheVariants as refused
use Rattle.tolerances.specs.declared.Tolerances.{Tolerances}

-- the near tolerance, the near-zero tolerance in seconds of the clip, and the relabel distance in frames a second, which is an f32
abbrev pub tolerances_of : Float → Float → Float → Tolerances
tolerances_of near near_zero relabel = record { near = near; near_zero = near_zero; relabel = relabel }

-- 2 ^ -26, 2 ^ -26 and 0.1 as f32
abbrev pub defaults : Tolerances
defaults = tolerances_of near_tolerance near_tolerance rate_tolerance

-- nothing but equal numbers is near
abbrev pub zeros : Tolerances
zeros = tolerances_of float_zero float_zero float_zero

-- not finite, or outside 0 to 1; −0, 0 and 1 are inside
unfoldable pub bad_tolerance : Float → Bool
bad_tolerance x = not (finite x) || lt x float_zero || lt one x

-- tolerances are checked where they are made, and nowhere else: 18 where one of the three is bad
unfoldable pub made : Float → Float → Float → Result Tolerances Refusal
made near near_zero relabel =
    cond (bad_tolerance near || bad_tolerance near_zero || bad_tolerance relabel) (Err refused.Tolerance)
    (Ok (tolerances_of near near_zero relabel))

-- ---- the tests: each receives the record, and goes by its own tolerance of the three
abbrev pub is_near : Tolerances → Float → Float → Bool
is_near t a b = near a b t.near

abbrev pub is_near_zero : Tolerances → Float → Bool
is_near_zero t a = near_zero a t.near_zero

abbrev pub is_same_rate : Tolerances → Float → Float → Bool
is_same_rate t a b = float_eq a b t.relabel
