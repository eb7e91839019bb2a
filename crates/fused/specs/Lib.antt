pub mod Apart
pub mod Fused
pub mod Known
pub mod Sticky
pub mod Tied
