pub mod MinutesLaws
