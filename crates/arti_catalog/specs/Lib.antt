pub mod Boxes
pub mod Held
pub mod Judged
pub mod Formed
pub mod LiveLaws
pub mod PropsEdits
pub mod Built
pub mod Contents
