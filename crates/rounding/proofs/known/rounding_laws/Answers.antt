-- `rounding::known::rounding_laws`: the laws, from where they are proved. Assumes nothing.
-- By hand: with laws named on the function `returns` is not proved.
use lib.Ieee.Order.{round_mono}
use Rattle.rounding.proofs.Difference.{sterbenz}
use Rattle.rounding.proofs.Error.{round_near}
use Rattle.rounding.proofs.Euclid.{euclid, truncation, wholes}
use Rattle.rounding.proofs.Exact.{round_same_float, whole_exact, in_units, mul-pow}
use Rattle.rounding.proofs.Modulo.{rem_exact}
use Rattle.rounding.proofs.Operations.{add_near, sub_near, mul_near, div_near}
use Rattle.rounding.proofs.known.rounding_laws.Goals as goal

pub returns : goal.returns
returns c =
    record {
      round_error = round_near;
      add_error = λ f x y a c b d h. add_near f x y a c b d h.0 h.1 h.2 h.3;
      sub_error = λ f x y a c b d h. sub_near f x y a c b d h.0 h.1 h.2 h.3;
      mul_error = λ f x y a c b d h. mul_near f x y a c b d h.0 h.1 h.2 h.3;
      div_error = λ f x y a c b d h. div_near f x y a c b d h.0 h.1 h.2 h.3;
      monotone = round_mono;
      itself = round_same_float;
      whole = whole_exact;
      in_units = in_units;
      power = mul-pow;
      remainder = rem_exact;
      sterbenz = sterbenz;
      wholes = wholes;
      truncation = truncation;
      euclid = euclid;
    }
