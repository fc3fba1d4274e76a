pub mod Mails
pub mod Queues
