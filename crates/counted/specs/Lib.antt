-- The statement about the counting player beside the first one, and lists of calls that meet its premises.
pub mod Beside
pub mod Instances
