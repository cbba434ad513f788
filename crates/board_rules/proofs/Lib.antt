pub mod SwitchLaws
pub mod RateLaws
pub mod SettingLaws
pub mod Laws6036
pub mod Laws6038
pub mod AsPrintedHolds
pub mod AsPrinted6038Holds
