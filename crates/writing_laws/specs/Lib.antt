-- The statements about what is written.
pub mod RoundTrips
