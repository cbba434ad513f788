pub mod PageLaws
pub mod NumberLaws
pub mod WholeLaws
pub mod RoomLaws
pub mod AsPrintedHolds
pub mod RowsByTheirPartsHold
pub mod ToldApart
