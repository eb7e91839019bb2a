-- Statements about the definitions of the other crates, and lists of calls that meet their premises.
pub mod Calls
pub mod LongRun
pub mod LoopSwitch
pub mod Longer
pub mod Instances
pub mod SwitchInstances
pub mod ByHand
pub mod Known
pub mod Conversions
pub mod GivenNumbers
pub mod Tolerances
pub mod Ramps
pub mod RampInstances
