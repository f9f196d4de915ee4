pub mod ContentLemmas
pub mod FileLemmas
pub mod DraftLemmas
pub mod AnswerLemmas
