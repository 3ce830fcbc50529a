pub mod Table
pub mod Core
pub mod Brought
pub use Rattle.http_connection.specs.answers_meaning as answers_meaning
pub use Rattle.http_connection.specs as http_connection
pub use Rattle.http_connection.specs.request_flow as request_flow
pub use Rattle.http_connection.specs.request_opening as request_opening
