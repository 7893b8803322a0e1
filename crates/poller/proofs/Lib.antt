pub mod LaidScriptLemmas
pub mod LinkLemmas
pub mod Notes
pub mod RoundLemmas
pub mod ScriptLemmas
pub mod Steps
pub mod Views
pub mod WorldLemmas
