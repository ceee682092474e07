pub mod BytesAfterPath
