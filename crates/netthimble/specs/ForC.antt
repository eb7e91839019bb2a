-- The answers of the calls for C: for each case of an answer its values and 0, or the refusal's number beside zeros
-- (docs/REFERENCE.md, 'Refusals'). Definitions only. The player's calls, and the number alone, are in Lent.antt of the crate `lent`.
use Rattle.std.specs.Prelude.{ℕ, Result, Ok, Err}
use Rattle.std.specs.Float.{binary32, binary64}
use Rattle.std.specs.Float.Ieee.{of_bits}
use Rattle.buffer.specs.Refusals.{number}
use Rattle.buffer.specs.declared.refusals.Refusal.{Refusal}
use Rattle.buffer.specs.declared.Shape.{Shape}
use Rattle.clip.specs.declared.ClipHeader.{ClipHeader}
use Rattle.clip.specs.declared.WithOnset.{WithOnset}
use Rattle.lent.specs.Nobody.{no_shape}
use Rattle.tolerances.specs.declared.Tolerances.{Tolerances}
use Rattle.tolerances.specs.Tolerances.{tolerances_of}
use Rattle.netthimble.specs.declared.Shaped.{Shaped}
use Rattle.netthimble.specs.declared.Parts.{Parts}
use Rattle.netthimble.specs.declared.Count.{Count}
use Rattle.netthimble.specs.declared.ShapedWithOnset.{ShapedWithOnset}
use Rattle.netthimble.specs.declared.Tolerated.{Tolerated}

-- reading a clip's header: its shape
abbrev pub clip_for : Result ClipHeader Refusal → Shaped
clip_for (Ok h) = record { shape = h.shape; refusal = 0 }
clip_for (Err refused) = record { shape = no_shape; refusal = number refused }

-- reading it with the onset
abbrev pub onset_for : Result WithOnset Refusal → ShapedWithOnset
onset_for (Ok read) = record { shape = read.header.shape; onset = read.onset; refusal = 0 }
onset_for (Err refused) = record { shape = no_shape; onset = 0; refusal = number refused }

-- a count: the frames that a copy moved, or the bytes of a file
abbrev pub count_for : Result ℕ Refusal → Count
count_for (Ok n) = record { count = n; refusal = 0 }
count_for (Err refused) = record { count = 0; refusal = number refused }

-- making tolerances: the record
abbrev pub no_tolerances : Tolerances
no_tolerances = tolerances_of (of_bits binary64 0) (of_bits binary64 0) (of_bits binary32 0)

abbrev pub tolerated_for : Result Tolerances Refusal → Tolerated
tolerated_for (Ok t) = record { tolerances = t; refusal = 0 }
tolerated_for (Err refused) = record { tolerances = no_tolerances; refusal = number refused }

-- extend and convert: the result's shape
abbrev pub made_for : Result Shape Refusal → Shaped
made_for (Ok shape) = record { shape = shape; refusal = 0 }
made_for (Err refused) = record { shape = no_shape; refusal = number refused }

-- split: the shapes of the first part and of the rest
abbrev pub parted_for : Result (Shape × Shape) Refusal → Parts
parted_for (Ok (first, rest)) = record { first = first; rest = rest; refusal = 0 }
parted_for (Err refused) = record { first = no_shape; rest = no_shape; refusal = number refused }
