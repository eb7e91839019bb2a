-- Known bytes that are read or written one text after another, and fronts of a text. Assumes nothing.
use mathlib.Core.Path.{◌≡◌, refl, sym, ap, subst, ◌∙◌}
use mathlib.Core.List.{List, [], ◌++◌, append_assoc, append-nil}
use Prim.Native.Nat.{ℕ}
use lib.ListN.{take}
use Rattle.std.specs.Prelude.{Option, Some, None, IfSome}
use Rattle.std.specs.Io.KnownBytes.{Appends, Consumes, IsAtEnd, Keeps}
use Rattle.session.specs.Running.{AppendsFront}

pub appends_none : (u : Option (List ℕ)) → Appends u u []
appends_none None = tt
appends_none (Some xs) = sym (append-nil xs)

pub appends_then : (u v w : Option (List ℕ)) (a b : List ℕ) → Appends u v a → Appends v w b → Appends u w (a ++ b)
appends_then None v w a b x y = tt
appends_then (Some xs) None w a b x y = absurd x
appends_then (Some xs) (Some ys) None a b x y = absurd y
appends_then (Some xs) (Some ys) (Some zs) a b x y = y ∙ ap (λ (t : List ℕ). t ++ b) x ∙ append_assoc xs a b

pub appends_kept : (u v w : Option (List ℕ)) (a : List ℕ) → Appends u v a → Keeps v w → Appends u w a
appends_kept None v w a x y = tt
appends_kept (Some xs) None w a x y = absurd x
appends_kept (Some xs) (Some ys) None a x y = absurd y
appends_kept (Some xs) (Some ys) (Some zs) a x y = y ∙ x

pub consumes_none : (u : Option (List ℕ)) → Consumes u u []
consumes_none None = tt
consumes_none (Some xs) = refl

pub consumes_then : (u v w : Option (List ℕ)) (a b : List ℕ) → Consumes u v a → Consumes v w b → Consumes u w (a ++ b)
consumes_then None v w a b x y = tt
consumes_then (Some xs) None w a b x y = absurd x
consumes_then (Some xs) (Some ys) None a b x y = absurd y
consumes_then (Some xs) (Some ys) (Some zs) a b x y = x ∙ ap (λ (t : List ℕ). a ++ t) y ∙ sym (append_assoc a b zs)

-- a read of no byte
pub consumes_end : (u v w : Option (List ℕ)) (a buf : List ℕ) (n : ℕ) → Consumes u v a → Consumes v w (take n buf) → n ≡ 0 → Consumes u w a
consumes_end u v w a buf n x y none = subst (Consumes u w) (ap (λ k. a ++ take k buf) none ∙ append-nil a) (consumes_then u v w a (take n buf) x y)

-- what holds of the bytes that were read and any that follow holds of all known ones
pub consumes_front : (u v : Option (List ℕ)) (a : List ℕ) (P : List ℕ → Type 0) → Consumes u v a → ((rest : List ℕ) → P (a ++ rest)) → IfSome u P
consumes_front None v a P x h = tt
consumes_front (Some xs) None a P x h = absurd x
consumes_front (Some xs) (Some ys) a P x h = subst P (sym x) (h ys)

-- a reader at its end gave all that it had
pub consumes_whole : (u v : Option (List ℕ)) (a : List ℕ) (P : List ℕ → Type 0) → Consumes u v a → IsAtEnd v → P a → IfSome u P
consumes_whole None v a P x e h = tt
consumes_whole (Some xs) None a P x e h = absurd x
consumes_whole (Some xs) (Some ys) a P x e h = subst P (sym (x ∙ ap (λ (t : List ℕ). a ++ t) e ∙ append-nil a)) h

-- ---- fronts of a text
pub all_front : (u v : Option (List ℕ)) (a b : List ℕ) → Appends u v a → AppendsFront u v (a ++ b)
all_front u v a b x = record { front = a; rest = b; whole = refl; grown = x }

-- a front of what comes behind a text that was written whole
pub front_then : (u v w : Option (List ℕ)) (a b : List ℕ) → Appends u v a → AppendsFront v w b → AppendsFront u w (a ++ b)
front_then u v w a b x f =
    record {
      front = a ++ f.front;
      rest = f.rest;
      whole = ap (λ (t : List ℕ). a ++ t) f.whole ∙ sym (append_assoc a f.front f.rest);
      grown = appends_then u v w a f.front x f.grown;
    }

-- a front of a front
pub front_more : (u v : Option (List ℕ)) (a b : List ℕ) → AppendsFront u v a → AppendsFront u v (a ++ b)
front_more u v a b f =
    record { front = f.front; rest = f.rest ++ b; whole = ap (λ (t : List ℕ). t ++ b) f.whole ∙ append_assoc f.front f.rest b; grown = f.grown }
