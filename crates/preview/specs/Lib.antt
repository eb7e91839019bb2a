-- What the contracts of `preview` cite: the preview of a block.
pub mod Preview
