-- By hand: the statement is a function, which `search` does not look up.
use Rattle.clip.proofs.RoundTrip.{round_trip}
use Rattle.clip.proofs.clip_file.Goals as goal

pub returns : goal.returns
returns c = round_trip
