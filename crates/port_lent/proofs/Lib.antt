pub mod QuickLaws
pub mod LentLaws
pub mod RunLoop
pub mod LentProved
