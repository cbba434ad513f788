pub mod SeveralTelegrams
