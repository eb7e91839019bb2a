-- From the statements below to the counting player beside the first.
mod Lists
mod Ends
mod Alive
mod Counter
mod Whole
mod Instances
