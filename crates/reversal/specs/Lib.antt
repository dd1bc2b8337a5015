pub mod Undo
pub mod UndoValue
pub mod UndoText
pub mod UndoAnswer
pub mod Statement
pub mod Examples
