pub mod DeviceExamples
