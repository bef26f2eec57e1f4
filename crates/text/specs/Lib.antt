pub mod Results
pub mod Numbers
pub mod Lines
pub mod Forms
