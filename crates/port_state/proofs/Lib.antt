pub mod YesOrNo
pub mod Dues
pub mod ClockAhead
pub mod PlainRecordLaws
