mod KnownWords
mod OneToken
mod SoFar
pub mod Standing
mod Leads
mod Chosen
mod LabelChoices
mod QueryChoices
mod StatementChoices
mod Whole
