-- docs/REFERENCE.md, 'Known frames': the one about a * b + c rounded once, as a claim about its definition.
use Rattle.std.specs.Prelude.{◌≡◌, ◌+◌, ◌-◌, ◌^◌}
use Rattle.std.specs.Float.{binary64}
use Rattle.rounding.specs.Known.{over, minus_whole}
use Rattle.fused.specs.Fused.{fma}

unfoldable pub KnownFused : Type 0
KnownFused =
    -- (1 - 2 ^ -53) times (1 + 2 ^ -23) plus -1 is 2 ^ -23 - 2 ^ -53 - 2 ^ -76
    fma binary64 (over (2 ^ 53 - 1) 53) (over (2 ^ 23 + 1) 23) (minus_whole 1) ≡ over (2 ^ 53 - 2 ^ 23 - 1) 76
