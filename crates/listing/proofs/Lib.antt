pub mod TextLaws
mod RefusedLaws
