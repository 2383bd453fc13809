mod Reported
mod Visits
mod Served
mod Durable
