-- Whether channels and frames are within the limits, where the product is cut to them. Assumes nothing.
use Rattle.std.proofs.Common.{◌≡◌, refl, ◌&&◌, Bool, true, false, ℕ, ◌*◌, ◌≤◌, min, arith, leb-true, ◌==◌, nat_le}
use Rattle.buffer.specs.Limits.{valid_shape}

least : {a b : ℕ} → a ≤ b → min a b ≡ a
least h = omega arith

pub any_product : (channels frames len : ℕ) → len ≡ min channels 32 * min frames 16777216 → valid_shape channels frames len ≡ valid_shape channels frames (channels * frames)
unfolding valid_shape
any_product channels frames len e = rw e (go (nat_le channels 32) refl (nat_le frames 16777216) refl)
  where
    go : (a : Bool) → nat_le channels 32 ≡ a → (b : Bool) → nat_le frames 16777216 ≡ b
        → (nat_le 1 channels && (a && (b && (min channels 32 * min frames 16777216) == channels * frames))) ≡ (nat_le 1 channels && (a && (b && (channels * frames) == channels * frames)))
    go true h true k =
        let few : channels ≤ 32 = leb-true channels 32 h in
        let short : frames ≤ 16777216 = leb-true frames 16777216 k in
        rw (least few, least short) refl
    go true h false k = refl
    go false h b k = refl
