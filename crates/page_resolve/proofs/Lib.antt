pub mod CommonAbilities
pub mod FirstInOrder
pub mod Exchange
pub mod LookedAt
pub mod ResolveExamples
pub mod SettledAnswers
