pub mod Ends
pub mod Serving
pub use Rattle.connection_core.specs as connection_core
pub use Rattle.connection_core.specs.http_connection as http_connection
pub use Rattle.connection_core.specs.request_flow as request_flow
pub use Rattle.connection_core.specs.request_opening as request_opening
