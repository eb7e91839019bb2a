-- What follows of the tape (docs/REFERENCE.md, 'The loop switch'), for every block length n and every clip of l frames. Definitions only.
use Rattle.std.specs.Prelude.{◌≡◌, true, false, cond, List, ◌∷◌, ◌++◌, T, ℕ, ◌+◌, ◌%◌, ◌<◌, ◌≤◌, ltb, eqb, None, Some}
use Rattle.tape.specs.Tape.{Tape, Step, loop_is, a_block, fresh, stepped, stepped_all, frame_at, stays_off}

pub record TheTape (n l : ℕ) : Type 0 where
  -- looped, a block that begins with p plays frame (p + i) mod l; unlooped, frame p + i below l, else zero
  pub looped : (t : Tape) → t.ended ≡ false → t.looped ≡ true → t.head.p ≤ l → (i : ℕ) → frame_at l t i ≡ Some ((t.head.p + i) % l)
  pub unlooped : (t : Tape) → t.ended ≡ false → t.looped ≡ false → (i : ℕ)
      → frame_at l t i ≡ cond (ltb (t.head.p + i) l) (Some (t.head.p + i)) None
  -- looped, p stays at or below l, and the tape doesn't end
  pub goes_on : (t : Tape) → t.ended ≡ false → t.looped ≡ true → t.head.p ≤ l
      → ((stepped n l t a_block).head.p ≤ l) × ((stepped n l t a_block).ended ≡ false)
  -- it goes straight on as far as the clip reaches, l included; past it, it is the remainder by l, which may be 0
  pub comes_to : (t : Tape) → t.ended ≡ false → t.looped ≡ true → t.head.wrap ≡ false → t.head.p ≤ l
      → (stepped n l t a_block).head.p ≡ cond (ltb l (t.head.p + n)) ((t.head.p + n) % l) (t.head.p + n)
  -- unlooped, p grows by the block, and the tape ends where it is then above l
  pub runs_out : (t : Tape) → t.ended ≡ false → t.looped ≡ false → t.head.wrap ≡ false
      → ((stepped n l t a_block).head.p ≡ t.head.p + n) × ((stepped n l t a_block).ended ≡ ltb l (t.head.p + n))
  -- and p exactly l then is an exact fit
  pub exact_fit : (t : Tape) → t.ended ≡ false → t.looped ≡ false → t.head.wrap ≡ false
      → (stepped n l t a_block).exact_fit ≡ eqb (t.head.p + n) l
  -- so the block after an exact fit ends it, if it is unlooped too
  pub next_ends : (t : Tape) → t.head.p ≡ l → t.looped ≡ false → t.head.wrap ≡ false → (stepped n l t a_block).ended ≡ true
  -- these hold at any moment of a list: between its steps no wrap is noted, and p lies at or below l until the end
  pub between : (steps : List Step)
      → ((stepped_all n l fresh steps).head.wrap ≡ false)
      × ((stepped_all n l fresh steps).ended ≡ false → (stepped_all n l fresh steps).head.p ≤ l)
  -- once ended, it gives zeros for good
  pub over : (t : Tape) → t.ended ≡ true → (steps : List Step)
      → ((stepped_all n l t steps).ended ≡ true) × ((i : ℕ) → frame_at l (stepped_all n l t steps) i ≡ None)
  -- the premise in words: it is met where no loop-on message has an exact fit just before it and a block behind it
  pub premise : (t : Tape) (steps : List Step)
      → ((front between back : List Step) → steps ≡ front ++ (loop_is true ∷ (between ++ (a_block ∷ back)))
      → (stepped_all n l t front).exact_fit ≡ true → ⊥)
      → T (stays_off n l t steps)

abbrev pub Tapes : Type 0
Tapes = (n l : ℕ) → 0 < n → 0 < l → TheTape n l
