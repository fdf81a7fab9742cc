mod Handed
pub mod Ports
pub mod Results
