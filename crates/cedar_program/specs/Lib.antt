pub mod Options
pub mod Runs
pub mod CommandLine
pub mod Folders
pub mod Rights
pub mod FolderRuns
