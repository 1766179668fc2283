pub mod PatternLaws
pub mod StepLaws
pub mod ClockShift
