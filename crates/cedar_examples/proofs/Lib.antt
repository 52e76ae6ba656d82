pub mod Keys
pub mod Comments
pub mod PolicyDocuments
