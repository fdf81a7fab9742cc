pub mod Outside
pub mod Counting
pub mod Gathering
pub mod MemShelf
pub mod MemSink
pub mod FsShelf
pub mod StdSink
