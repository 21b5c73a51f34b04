-- What a host is given of a call.
pub mod Given
