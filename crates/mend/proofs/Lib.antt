-- The laws that `mend` cites.
mod Numbers
mod Longer
mod Made
