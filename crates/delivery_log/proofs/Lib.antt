pub mod HandOutLaws
