pub mod EtagLemmas
pub mod FileMapLemmas
pub mod FolderLemmas
pub mod KnownBytes
pub mod PlanLemmas
pub mod Results
pub mod Runs
pub mod StreamLemmas
